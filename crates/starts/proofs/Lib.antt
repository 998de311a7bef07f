pub mod Used
pub mod Law
pub mod After
pub mod Parts
