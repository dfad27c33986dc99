pub mod Laws
pub mod Rewrites
