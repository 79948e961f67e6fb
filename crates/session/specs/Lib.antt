pub mod Line
pub mod Session
