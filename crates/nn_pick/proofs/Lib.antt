pub mod VersionLemmas
pub mod UnderLemmas
pub mod HoldsLemmas
pub mod OneImageLemmas
pub mod AloneLemmas
pub mod OneRefusalLemmas
pub mod OneOpeningLemmas
pub mod LawLemmas
