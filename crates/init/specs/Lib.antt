pub mod Init
pub mod Inner
