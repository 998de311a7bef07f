pub mod Read
pub mod Line
pub mod Looking
pub mod Along
