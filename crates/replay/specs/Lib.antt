pub mod Notes
pub mod Way
