pub mod Answers
pub mod Wrote
