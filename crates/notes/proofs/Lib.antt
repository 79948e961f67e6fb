pub mod Places
pub mod Groups
pub mod Messages
