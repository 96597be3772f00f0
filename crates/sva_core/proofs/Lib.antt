pub mod Agreed
pub mod EqualityTests
pub mod FrameCounts
pub mod JournalEntries
pub mod Reaching
pub mod Suiting
pub mod TokenLemmas
