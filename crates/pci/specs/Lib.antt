pub mod Views
pub mod Refusals
pub mod Script
pub mod Machine
pub mod Suits
