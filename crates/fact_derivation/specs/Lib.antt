pub mod Asking
pub mod Derivings
pub mod Finding
