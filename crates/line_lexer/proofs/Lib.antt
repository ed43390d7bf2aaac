pub mod Ends
pub mod Longest
pub mod Meanings
pub mod Cuts
pub mod Ahead
pub mod Twice
pub mod Onward
pub mod Samples
