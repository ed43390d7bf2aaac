pub mod Certain
pub mod Keeping
pub mod Readying
