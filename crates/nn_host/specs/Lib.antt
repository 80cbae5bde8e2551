pub mod Disk
pub mod Listing
pub mod Moments
pub mod Calls
pub mod Runs
pub mod Sources
