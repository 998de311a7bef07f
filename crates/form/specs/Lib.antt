pub mod Turn
pub mod Claims
