pub mod Answer
pub mod Accepted
pub mod Line
pub mod Along
pub mod Cells
pub mod Cases
