pub mod Words
pub mod Fields
pub mod Bars
pub mod Memory
pub mod Replies
pub mod Tables
pub mod Command
