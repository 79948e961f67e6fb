pub mod Transit
