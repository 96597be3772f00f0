pub mod Replays
pub mod Traces
pub mod Tests
pub mod Plains
pub mod ByNames
pub mod Ends
pub mod Weights
pub mod Witnesses
