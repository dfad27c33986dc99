pub mod Bytes
pub mod Ends
pub mod Lift
pub mod Live
pub mod Octets
