pub mod Heights
pub mod Told
pub mod Stored
pub mod Ages
pub mod Runs
pub mod Tells
pub mod Cases
pub mod Caller
