pub mod Cases
pub mod Within
pub mod Replies
