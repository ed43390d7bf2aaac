mod Samples
pub mod Truth
pub mod Witnessing
