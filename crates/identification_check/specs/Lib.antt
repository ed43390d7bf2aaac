pub mod Asking
pub mod Chained
pub mod Members
pub mod Violations
