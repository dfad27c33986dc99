pub mod Attributes
pub mod Claim
pub mod Parting
