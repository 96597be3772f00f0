pub mod Ranges
pub mod Submitted
pub mod Places
pub mod Pumps
pub mod Completes
