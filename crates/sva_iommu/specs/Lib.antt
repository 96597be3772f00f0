pub mod Seen
pub mod Pumping
pub mod Changes
