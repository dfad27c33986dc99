pub mod Calls
pub mod Kept
pub mod Readers
pub mod Turns
