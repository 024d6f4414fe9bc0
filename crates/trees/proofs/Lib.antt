-- That coding and decoding are the same by tree order.
pub mod Decoding
pub mod Family
pub mod Lawful
pub mod Measure
pub mod Places
pub mod Renamed
pub mod Run
pub mod Sound
pub mod Within
