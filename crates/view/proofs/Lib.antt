pub mod Reaches
pub mod Stepping
pub mod Window
pub mod Demand
pub mod Cases
