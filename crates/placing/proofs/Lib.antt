pub mod Stores
pub mod Blocks
pub mod Grid
pub mod Levels
pub mod Band
pub mod Loops
pub mod Signed
pub mod Calls
