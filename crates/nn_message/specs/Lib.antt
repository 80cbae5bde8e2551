pub mod Messages
pub mod Spelling
pub mod Frame
pub mod FrameViews
pub mod Reading
pub mod MessageReading
pub mod Views
