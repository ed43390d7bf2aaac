pub mod Lean
pub mod Specified
