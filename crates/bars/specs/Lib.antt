pub mod Bars
pub mod Resource
pub mod Choose
pub mod Steps
