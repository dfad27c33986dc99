pub mod Cutting
pub mod Lands
pub mod Steps
