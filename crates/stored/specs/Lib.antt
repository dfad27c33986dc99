pub mod Input
pub mod Question
