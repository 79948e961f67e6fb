pub mod Rules
pub mod Ways
pub mod Next
pub mod Stops
pub mod Turns
pub mod Replayed
pub mod Tables
