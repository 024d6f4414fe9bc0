-- Document 01's offspring rule is a lawful family, and its pyramid holds each coefficient once.
pub mod Level
pub mod Block
pub mod Kin
pub mod Parent
