pub mod Again
pub mod Parts
pub mod Selection
pub mod Served
