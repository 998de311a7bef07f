pub mod Fits
pub mod Answers
pub mod Wear
