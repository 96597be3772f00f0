pub use Rattle.sva_host_state.specs.Steps
pub use Rattle.sva_host_state.specs.Arriving
pub use Rattle.sva_host_state.specs.Replying
pub use Rattle.sva_parts_by_labels.specs.Flights
pub mod Seen
pub mod Inner
pub mod Applied
