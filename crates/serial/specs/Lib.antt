pub mod State
pub mod Serial
pub mod Cutting
pub mod Taking
