pub mod Planes
pub mod Skips
