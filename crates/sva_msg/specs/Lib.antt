pub mod Bag
pub mod Calls
pub mod Code
pub mod Extents
pub mod Flight
pub mod Kind
pub mod Laws
pub mod Seen
