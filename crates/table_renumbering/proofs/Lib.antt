pub mod Cells
pub mod Moved
pub mod Numbers
