pub mod Stretches
pub mod Places
mod Samples
