pub mod Digest
pub mod Given
pub mod Seen
pub mod Version
pub mod VersionFaults
pub mod VersionText
