pub use Rattle.sva_script_reading.proofs.FaultLemmas as ScriptFaultLemmas
pub mod Lists
pub mod FaultLemmas
pub mod LimitLemmas
pub mod PieceLemmas
pub mod StepLemmas
pub mod PossibleLemmas
pub mod ListLemmas
pub mod DeviceLemmas
pub mod CountLemmas
pub mod LiteralLemmas
pub mod ReadLemmas
pub mod RunLemmas
pub mod WholeLemmas
