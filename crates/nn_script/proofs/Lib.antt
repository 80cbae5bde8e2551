pub mod CutLemmas
pub mod OctalLemmas
pub mod EscapeLemmas
pub mod ReadingLemmas
pub mod SpacedLemmas
pub mod PrintingLemmas
pub mod GapLemmas
