pub mod MoveLemmas
pub mod PlaceLemmas
pub mod ShareLemmas
pub mod BearerLemmas
pub mod CallLemmas
