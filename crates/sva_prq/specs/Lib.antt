pub mod Queue
pub mod Job
pub mod Groups
pub mod Slots
pub mod GroupCalls
pub mod JobTable
