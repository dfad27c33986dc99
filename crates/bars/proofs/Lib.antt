pub mod Laws
pub mod Walk
pub mod Lists
pub mod Others
pub mod Follows
