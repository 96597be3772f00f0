pub mod FindLemmas
pub mod RunLemmas
pub mod TakeLemmas
