pub mod Ended
pub mod Tried
pub mod Ran
pub mod Serving
pub mod Turns
pub mod Filled
pub mod Filling
