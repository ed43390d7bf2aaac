pub mod Places
pub mod Renumbering
pub mod Tuples
