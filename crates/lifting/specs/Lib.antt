pub mod Fills
pub mod Lines
pub mod Rows
pub mod Turns
pub mod Joins
pub mod Pictures
