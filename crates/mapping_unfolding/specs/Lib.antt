pub mod Drafts
pub mod Equating
pub mod Shifts
pub mod Unfoldings
