pub mod BytesLemmas
pub mod ReaderLemmas
pub mod LinesLemmas
pub mod LongLemmas
pub mod ScriptLemmas
pub mod NewlineLemmas
