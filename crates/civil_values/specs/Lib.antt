pub mod Times
pub mod TimeReader
pub mod Numbers
pub mod Truth
pub mod Texts
