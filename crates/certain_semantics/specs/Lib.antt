pub mod Certain
pub mod Laws
pub mod Truth
pub mod Witnesses
