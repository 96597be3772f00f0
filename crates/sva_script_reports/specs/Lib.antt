pub mod Scripts
pub mod Lines
pub mod Shows
pub mod Prints
pub mod Whys
pub mod Rows
pub mod Traces
