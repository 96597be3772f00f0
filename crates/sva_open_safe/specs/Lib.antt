pub mod Plain
pub mod Swaps
pub mod Classes
pub mod Wrongs
