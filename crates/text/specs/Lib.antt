pub mod Chunks
pub mod Finished
