pub mod Inputs
pub mod Spoken
pub mod Cutting
pub mod Reading
pub mod Telling
