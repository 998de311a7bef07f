pub mod Cases
pub mod Depth
pub mod Pixels
pub mod Stands
pub mod Raster
pub mod Masking
