pub mod Font
pub mod Strip
pub mod Limits
pub mod Claims
