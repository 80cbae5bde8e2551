pub mod Ready
pub mod Standing
pub mod Written
pub mod Events
pub mod Performed
