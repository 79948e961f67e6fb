pub mod Laid
pub mod Tables
