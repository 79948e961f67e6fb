pub mod Cuts
pub mod Lowered
pub mod Steps
pub mod Notes
