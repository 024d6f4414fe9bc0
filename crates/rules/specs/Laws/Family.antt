-- Families and sizes: what the theory needs of a family, how large the levels of a legal size are, and the maxima of sets.
pub mod Lawful
pub mod Sizes
