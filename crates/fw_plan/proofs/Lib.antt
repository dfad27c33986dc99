pub mod Landed
pub mod Refusals
pub mod Session
pub mod Steps
