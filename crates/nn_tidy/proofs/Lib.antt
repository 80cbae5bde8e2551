pub mod PairLemmas
pub mod RunLemmas
pub mod FateLemmas
pub mod PlanLemmas
pub mod StepLemmas
pub mod SegmentLemmas
pub mod TidyLemmas
pub mod CallLemmas
