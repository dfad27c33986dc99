pub mod Replied
pub mod Steps
