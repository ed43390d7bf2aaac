pub mod Gaining
pub mod Heads
pub mod InOrder
pub mod Numbers
pub mod Rows
pub mod Values
