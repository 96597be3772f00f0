pub mod InFlight
pub mod Alike
pub mod Laws
