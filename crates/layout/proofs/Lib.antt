pub mod Rows
pub mod Sections
pub mod Refused
