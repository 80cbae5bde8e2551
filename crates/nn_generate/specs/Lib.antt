pub mod Generated
pub mod Said
