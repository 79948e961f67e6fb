pub mod FailureLine
