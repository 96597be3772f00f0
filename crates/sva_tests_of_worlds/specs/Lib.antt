pub mod Ways
pub mod Letters
