pub mod Entry
pub mod Bringing
pub mod Publishing
pub mod Keeping
pub mod Together
