pub mod Opened
pub mod Served
pub mod Counted
pub mod Ended
pub mod Leaving
pub mod Closed
pub mod Stopped
