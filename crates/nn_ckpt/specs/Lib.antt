pub mod Retention
pub mod Each
pub mod Checkpointed
pub mod Laws
