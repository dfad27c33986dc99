pub mod Good
pub mod Comparisons
