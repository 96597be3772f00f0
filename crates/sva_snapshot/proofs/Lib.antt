pub mod More
pub mod Tests
pub mod Parts
pub mod SnapshotLemmas
