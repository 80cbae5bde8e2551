pub mod DryLemmas
pub mod CameLemmas
pub mod ShortLemmas
pub mod StatesLemmas
pub mod FormatLemmas
