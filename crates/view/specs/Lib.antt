pub mod View
pub mod Walk
pub mod Steps
pub mod Shows
