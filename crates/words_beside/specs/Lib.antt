pub mod Coding
pub mod Fits
