pub mod Lift
pub mod Lines
pub mod Put
