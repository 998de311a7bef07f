pub mod Samples
pub mod Kept
pub mod Claims
