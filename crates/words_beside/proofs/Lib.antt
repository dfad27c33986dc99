pub mod Trip
pub mod Typed
