pub mod Ops
pub mod Spelling
pub mod Reading
pub mod RecordReading
