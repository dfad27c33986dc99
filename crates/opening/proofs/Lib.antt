pub mod Steps
pub mod Noted
