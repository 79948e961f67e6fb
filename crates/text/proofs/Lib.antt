pub mod Sessions
pub mod Chunks
