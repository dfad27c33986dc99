pub mod Rows
pub mod Parts
pub mod Put
pub mod Slots
pub mod Rewrites
pub mod Trip
pub mod Typed
pub mod Fresh
