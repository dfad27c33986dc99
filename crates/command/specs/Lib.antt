pub mod Script
pub mod Machine
