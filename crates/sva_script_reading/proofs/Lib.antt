pub mod LineLemmas
pub mod FaultLemmas
pub mod BeginLemmas
pub mod WordLemmas
