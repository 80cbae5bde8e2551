pub mod Steps
pub mod Fates
pub mod Plans
