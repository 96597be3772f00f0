pub mod Charts
pub mod Witnesses
