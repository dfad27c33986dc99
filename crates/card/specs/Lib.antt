pub mod Card
pub mod Safe
pub mod Owns
pub mod Known
