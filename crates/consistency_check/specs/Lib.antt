pub mod Asking
pub mod Checkable
pub mod Given
pub mod Meeting
pub mod Planned
pub mod Contradictions
pub mod Unsatisfiable
