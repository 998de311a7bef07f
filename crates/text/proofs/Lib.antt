pub mod Cases
pub mod Stored
pub mod Joined
pub mod LineCases
pub mod Numbers
pub mod Between
pub mod Table
