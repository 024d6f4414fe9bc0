pub mod Booleans
pub mod Sums
