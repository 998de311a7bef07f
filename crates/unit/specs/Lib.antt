pub mod Sheet
pub mod Point
pub mod Cases
pub mod Tables
pub mod Draw
pub mod Demands
pub mod Kept
