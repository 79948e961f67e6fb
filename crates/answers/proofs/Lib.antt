pub mod Fields
pub mod Called
