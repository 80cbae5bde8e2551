pub mod TogetherLemmas
pub mod TallyLemmas
pub mod TallyEndLemmas
pub mod LineLemmas
pub mod PathLemmas
pub mod GeneratedLemmas
pub mod ScriptLemmas
