pub mod Crc32
pub mod Varint
pub mod Field
pub mod Fault
