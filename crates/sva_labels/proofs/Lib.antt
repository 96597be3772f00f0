pub mod Tests
pub mod Words
pub mod Counting
pub mod Lists
pub mod Steps
pub mod SoundRoom
pub mod Waiting
pub mod WaitingSteps
