pub mod Tally
pub mod Tallying
pub mod Filled
