pub mod Vector
pub mod Tags
pub mod Calls
