pub mod Lists
pub mod Commands
pub mod Glyphs
pub mod Fonts
pub mod Words
pub mod Rows
pub mod Same
pub mod Strips
