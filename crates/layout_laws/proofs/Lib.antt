pub mod Rows
pub mod Good
pub mod Comparisons
pub mod Mapped
pub mod Profiles
