pub mod Told
pub mod Rests
pub mod Wrote
