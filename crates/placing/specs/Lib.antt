pub mod Stores
pub mod Placing
