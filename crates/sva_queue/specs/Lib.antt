pub mod Ring
pub mod Cookies
pub mod Queue
pub mod Calls
pub mod Fronts
pub mod Heads
