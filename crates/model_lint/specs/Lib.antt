pub mod Containment
pub mod Laws
pub mod Marks
pub mod Voids
