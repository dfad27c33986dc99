pub mod Follows
pub mod Counts
