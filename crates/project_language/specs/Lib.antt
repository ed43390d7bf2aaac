pub mod Meant
pub mod Project
pub mod Sound
pub mod Laws
