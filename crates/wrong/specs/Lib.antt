pub mod Wrong
pub mod Replies
