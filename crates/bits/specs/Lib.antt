pub mod Bits
pub mod Written
