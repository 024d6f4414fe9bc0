pub mod Seg
pub mod Cut
pub mod Workspace
pub mod Levels
