pub mod Asks
mod Homes
mod InOrder
mod Judging
mod Making
mod Moments
mod Neighbours
mod Numbering
mod Occurring
pub mod OneLog
mod Runs
mod Samples
mod Sections
mod SmallLog
mod Tuples
mod Walking
