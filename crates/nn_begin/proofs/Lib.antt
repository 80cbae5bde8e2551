pub mod MomentLemmas
pub mod AfterLemmas
pub mod BeginLemmas
pub mod StandLemmas
pub mod HoldLemmas
pub mod StartLemmas
