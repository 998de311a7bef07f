pub mod Text
pub mod Refusal
pub mod Lines
pub mod Numbers
