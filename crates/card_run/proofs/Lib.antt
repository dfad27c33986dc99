pub mod Steps
pub mod Command
pub mod Tasks
pub mod Courses
pub mod Opening
pub mod Closing
pub mod Client
