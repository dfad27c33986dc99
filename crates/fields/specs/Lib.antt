pub mod Outcome
pub mod Fields
