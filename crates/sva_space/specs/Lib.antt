pub mod Pages
pub mod Calls
pub mod Laws
