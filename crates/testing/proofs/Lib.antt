pub mod Leaves
pub mod Finding
pub mod Refining
