pub mod Bytes
pub mod Run
