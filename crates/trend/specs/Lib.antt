pub mod Trend
