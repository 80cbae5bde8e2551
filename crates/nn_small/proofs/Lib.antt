pub mod SmallLemmas
pub mod WriteLemmas
pub mod ReadLemmas
pub mod MomentLemmas
pub mod FailureLemmas
