pub mod Clipped
pub mod Gathered
