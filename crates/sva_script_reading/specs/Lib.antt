pub mod Messages
pub mod Lines
pub mod Faults
pub mod Said
pub mod Begins
pub mod Reading
