pub mod Cases
pub mod Line
pub mod Pixels
