pub mod Follows
pub mod Laws
pub mod Counts
pub mod Taken
