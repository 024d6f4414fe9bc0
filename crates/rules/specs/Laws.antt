-- The words in which the laws of proofs/Laws are said, by subject.
pub mod Counting
pub mod Family
pub mod Offspring
pub mod Pass
pub mod State
pub mod Reading
pub mod Bytes
pub mod Serving
pub mod Rounding
pub mod Calls
