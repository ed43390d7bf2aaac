pub mod Answers
pub mod Queries
pub mod Voids
pub mod Containment
