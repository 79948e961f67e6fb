pub mod Opened
pub mod Replies
pub mod Room
