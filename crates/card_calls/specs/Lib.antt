pub mod SafeCourse
pub mod Ranges
pub mod Owed
pub mod Holding
pub mod Has
