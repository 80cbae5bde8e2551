pub mod Formatted
pub mod Answers
