pub mod Depth
pub mod Pixel
pub mod Raster
pub mod Masking
