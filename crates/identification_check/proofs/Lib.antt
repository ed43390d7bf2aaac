pub mod Asked
pub mod Behind
pub mod Clashing
pub mod Fronts
pub mod Querying
pub mod Violated
