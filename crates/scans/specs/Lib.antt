pub mod Sends
pub mod Receipts
