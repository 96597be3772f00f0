pub mod States
pub mod Stages
pub mod Moves
pub mod Places
pub mod Bearers
pub mod Indexes
pub mod Calls
