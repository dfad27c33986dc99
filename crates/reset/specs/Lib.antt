pub mod Reset
pub mod Steps
pub mod Taken
