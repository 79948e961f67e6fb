pub mod Notes
pub mod Ways
pub mod Calls
pub mod Rounds
