pub mod OrderLemmas
pub mod ReplayLemmas
pub mod FileLemmas
pub mod HeldLemmas
pub mod QueueLemmas
pub mod TurnLemmas
pub mod NewestLemmas
