mod Highest
mod Removed
mod Counted
pub mod Opened
