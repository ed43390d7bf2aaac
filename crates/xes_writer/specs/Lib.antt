pub mod Gathered
pub mod Xes
