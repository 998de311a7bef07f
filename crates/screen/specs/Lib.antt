pub mod Image
pub mod Screen
pub mod Values
pub mod Shown
pub mod Fields
pub mod Narrow
pub mod Cases
