pub mod Device
pub mod DeviceLaws
pub mod Bindings
pub mod Flights
pub mod JobTable
pub mod JobTableLaws
