pub mod FieldLemmas
pub mod FrameLemmas
pub mod PathLemmas
pub mod AgainLemmas
pub mod OpAgainLemmas
pub mod RecordLemmas
pub mod FormLemmas
pub mod GetLemmas
