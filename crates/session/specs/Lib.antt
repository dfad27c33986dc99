pub mod Session
pub mod Course
pub mod Failures
pub mod Core
