pub mod Closing
pub mod Plan
