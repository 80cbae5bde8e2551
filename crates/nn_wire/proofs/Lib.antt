pub mod Crc32Lemmas
pub mod TableLemmas
pub mod SpellingLemmas
pub mod GrammarLemmas
pub mod ReadingLemmas
pub mod FaultLemmas
pub mod FieldLemmas
