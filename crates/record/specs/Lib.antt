pub mod Bytes
pub mod Lists
pub mod Part
pub mod Record
pub mod Checks
