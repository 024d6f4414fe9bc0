pub mod Surveyed
pub mod AsServing
