pub mod Images
pub mod Kept
pub mod Laws
pub mod Numbered
pub mod Search
pub mod Subsumption
