pub mod Numbers
pub mod Messages
