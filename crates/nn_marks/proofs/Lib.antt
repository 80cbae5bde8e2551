pub mod SeenLemmas
pub mod DigestLemmas
pub mod LinesLemmas
pub mod LineFaults
pub mod KeysLemmas
pub mod VersionTextLemmas
pub mod FaultlessLemmas
