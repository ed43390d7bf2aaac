mod Comparing
mod Counting
mod Joining
pub mod Ordered
mod Passing
mod Placing
mod Samples
pub mod Settling
mod Terms
pub mod Uniting
