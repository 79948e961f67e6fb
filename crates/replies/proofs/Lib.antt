pub mod Tables
pub mod Told
