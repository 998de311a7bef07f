pub mod Register
pub mod Start
pub mod Admit
pub mod Play
pub mod Words
