pub mod Acts
pub mod Cuts
pub mod Needed
pub mod Platforms
pub mod Questions
