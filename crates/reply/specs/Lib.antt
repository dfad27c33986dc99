pub mod Capability
pub mod Replies
