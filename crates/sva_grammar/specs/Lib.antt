pub mod Faults
pub mod Grammar
pub mod Laws
pub mod Places
pub mod Letters
pub mod Replies
pub mod Configs
