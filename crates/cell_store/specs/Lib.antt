pub mod Grid
pub mod Stretches
