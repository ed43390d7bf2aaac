pub mod Putting
mod Samples
