pub mod Begins
pub mod Counts
pub mod Refusals
pub mod Slots
