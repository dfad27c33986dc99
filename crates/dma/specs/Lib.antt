pub mod Buffers
pub mod Blocks
pub mod Pages
pub mod PageList
