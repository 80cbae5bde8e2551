pub mod Among
pub mod Ahead
pub mod Carried
pub mod Places
pub mod Finalizing
pub mod Rolling
pub mod Logging
