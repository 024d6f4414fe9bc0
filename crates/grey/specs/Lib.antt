pub mod Pixels
pub mod Outcomes
