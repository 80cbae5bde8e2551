pub mod Lines
pub mod Words
pub mod Verbs
pub mod Arguments
pub mod Reading
pub mod Spelling
pub mod Listing
pub mod Answers
