pub mod Small
pub mod Whole
pub mod Failure
