pub mod Bytes
pub mod Compile
pub mod Cases
