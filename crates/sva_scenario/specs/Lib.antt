pub mod Lines
pub mod Played
pub mod Roles
pub mod Lacks
pub mod Storms
pub mod StormReports
