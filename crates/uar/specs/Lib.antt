pub mod Uar
pub mod Steps
