mod Walks
mod Tellings
mod Limits
mod Slots
