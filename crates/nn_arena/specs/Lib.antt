pub mod Places
pub mod Children
pub mod FreeList
pub mod Totals
pub mod Changes
pub mod Room
