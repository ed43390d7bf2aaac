pub mod Cells
pub mod Tables
pub mod Reading
pub mod Loading
pub mod Laws
