pub mod Orphans
pub mod Lines
