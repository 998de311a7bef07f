pub mod Laws
pub mod Desk
pub mod Compared
pub mod Cases
pub mod StepCases
pub mod VerdictCases
