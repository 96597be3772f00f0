pub mod Rows
pub mod Running
pub mod StormLemmas
pub mod StormReportLemmas
