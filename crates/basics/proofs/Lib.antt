pub mod Booleans
pub mod Bits
pub mod Older
pub mod Sums
