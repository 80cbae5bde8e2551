pub mod Image
pub mod Imaged
pub mod Assembly
pub mod Faults
pub mod Saving
pub mod Building
