pub mod Starts
pub mod Law
