pub mod Stream
pub mod Compile
pub mod Part
pub mod Pass
