pub mod Runs
pub mod Meanings
pub mod Texts
pub mod Cases
