pub mod Codes
pub mod Came
pub mod Lines
pub mod States
pub mod Format
pub mod Scene
pub mod Answered
pub mod Dry
