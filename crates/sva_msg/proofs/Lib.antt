pub mod Deliverable
pub mod Histories
pub mod Numbered
pub mod Ordered
mod CodeLemmas
