pub mod Mappings
pub mod Ranges
pub mod Rows
