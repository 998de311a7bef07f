pub mod Run
pub mod Clash
