pub mod Powers
pub mod Order
pub mod Sorting
pub mod Placing
pub mod Bounds
pub mod Held
mod Answers
