pub mod StepLemmas
pub mod CallLemmas
pub mod SurveyLemmas
pub mod MakeLemmas
pub mod FormatLemmas
pub mod OpeningLemmas
pub mod LeftLemmas
