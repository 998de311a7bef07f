pub mod Blit
pub mod Rectangle
pub mod Words
pub mod Job
pub mod Line
