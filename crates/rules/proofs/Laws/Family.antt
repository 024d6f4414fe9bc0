pub mod Lawful
pub mod Maxima
pub mod Sizes
