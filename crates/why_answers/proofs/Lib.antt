pub mod Assigning
pub mod AtTuples
pub mod Births
pub mod Deriving
pub mod Explained
pub mod Facts
pub mod Marking
pub mod OneReading
pub mod Puts
pub mod Running
mod Samples
pub mod Searching
pub mod Solid
pub mod Tupled
pub mod Unfolding
pub mod Unwound
