mod Apart
mod Atoms
pub mod Gathered
pub mod Identified
mod Known
pub mod Meet
pub mod Planned
pub mod NotGiven
mod SameRow
mod Samples
pub mod Vain
