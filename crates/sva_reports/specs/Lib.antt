pub mod Report
pub mod Counts
