pub mod FrameTable
pub mod Limits
pub mod Refusals
pub mod Steps
pub mod Texts
