pub mod Command
pub mod Files
pub mod Help
pub mod Flags
