pub mod Languages
pub mod Columns
pub mod Located
