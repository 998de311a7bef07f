pub mod Script
pub mod Steps
pub mod Verdict
