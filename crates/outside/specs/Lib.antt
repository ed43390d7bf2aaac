pub mod Calls
pub mod Counts
pub mod Files
pub mod Opened
pub mod States
pub mod Written
