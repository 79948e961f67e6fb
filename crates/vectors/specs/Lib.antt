pub mod Try
pub mod Vectors
pub mod TextVectors
