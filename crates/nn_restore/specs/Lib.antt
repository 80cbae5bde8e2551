pub mod Emptying
pub mod Making
pub mod Restored
