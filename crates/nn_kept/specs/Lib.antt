pub mod Kept
pub mod Laws
pub mod Onward
pub mod Ends
pub mod First
