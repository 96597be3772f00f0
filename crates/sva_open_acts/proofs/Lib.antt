mod Itags
mod Taken
mod Stepped
mod Shared
