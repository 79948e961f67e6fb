pub mod Scanned
pub mod Notes
pub mod Parts
