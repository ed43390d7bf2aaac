pub mod Adding
pub mod Beside
pub mod Cells
pub mod Equating
pub mod Extending
pub mod Finishing
mod Samples
pub mod Texts
pub mod Whole
