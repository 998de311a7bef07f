pub mod Sharing
pub mod Command
pub mod Values
pub mod Task
