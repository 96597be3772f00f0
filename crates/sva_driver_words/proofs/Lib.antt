pub mod FaultLemmas
pub mod Lasts
pub mod Places
pub mod PieceLemmas
pub mod Threads
pub mod UnitLemmas
