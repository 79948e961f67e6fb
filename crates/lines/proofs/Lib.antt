pub mod NumberedLine
