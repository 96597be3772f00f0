pub mod Seats
pub mod Searches
pub mod Slots
pub mod QueueLaws
pub mod Tests
pub mod Filing
pub mod GroupLaws
pub mod Placed
