pub mod Refused
pub mod Replies
