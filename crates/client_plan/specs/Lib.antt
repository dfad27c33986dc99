pub mod Client
pub mod Plan
