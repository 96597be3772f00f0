pub mod IdleTags
pub mod InTurn
pub mod Waits
pub mod Windows
pub mod Cookies
pub mod Kept
pub mod Fronts
pub mod Looked
