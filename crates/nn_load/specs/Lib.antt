pub mod Replaying
pub mod Segments
pub mod Held
pub mod Queue
pub mod Turns
pub mod Newest
pub mod Loading
