pub mod Segment
pub mod Reaching
