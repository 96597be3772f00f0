mod FlagLemmas
pub mod LineLemmas
pub mod TellLemmas
pub mod CallLemmas
mod ReadLemmas
mod TurnLemmas
mod TakenLemmas
mod Parts
