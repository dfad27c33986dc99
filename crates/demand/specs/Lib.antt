pub mod Events
pub mod Demand
pub mod Books
