pub mod Copies
pub mod Lands
pub mod Steps
pub mod Told
