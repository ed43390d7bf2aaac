pub mod Atoms
pub mod Climbing
pub mod Found
pub mod Loops
pub mod Rules
pub mod Underivable
