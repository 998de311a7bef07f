pub mod Numbers
pub mod Tables
