pub use Rattle.sva_refinement.specs.Tallies
pub use Rattle.sva_host.specs.Seen as HostSeen
pub use Rattle.sva_host.specs.Steps as HostSteps
pub mod Headline
pub mod Reached
pub mod Journal
pub mod JournalHeadline
pub mod Suiting
pub mod Books
pub mod Receipts
pub mod FaultTexts
