pub mod RecordsLemmas
pub mod SayingLemmas
pub mod ListingLemmas
