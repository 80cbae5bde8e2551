pub mod Records
pub mod Saying
pub mod Listed
