pub mod Imaged
pub mod Noting
pub mod Parts
pub mod Scanning
pub mod Whole
