pub mod Words
pub mod Lines
pub mod Refused
pub mod Dirs
pub mod Refusing
pub mod Opening
pub mod Laws
