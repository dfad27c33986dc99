pub mod Exponent
pub mod Lists
pub mod Tiling
pub mod Cover
pub mod Steps
pub mod ReadBack
