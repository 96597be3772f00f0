pub mod Blocked
pub mod Withheld
pub mod Lacking
