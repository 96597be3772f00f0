pub mod AlikeWrongs
mod ClassLists
mod Classes
pub mod Flights
mod FlownActs
mod Kept
mod Numbers
mod PlainActs
mod PlainLinks
mod PlainLists
pub mod PlainWorlds
mod SameWrongs
pub mod Sound
mod SwapBelow
pub mod SwapParts
pub mod SwapWorlds
pub mod Tested
mod Firsts
mod Quiet
pub mod WrongsAndSafety
