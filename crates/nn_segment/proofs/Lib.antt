pub mod RunLemmas
pub mod ReachLemmas
