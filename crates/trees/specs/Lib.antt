-- Tree order: where its nodes stand, one numbering of all coefficients; the lists in tree numbers, what a pass speaks of, and the maxima of sets.
pub mod Places
pub mod Renamed
pub mod Within
pub mod Family
pub mod Run
pub mod Decoding
pub mod Sound
pub mod Measure
