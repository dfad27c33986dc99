pub mod Lands
pub mod Steps
pub mod Fills
pub mod Running
