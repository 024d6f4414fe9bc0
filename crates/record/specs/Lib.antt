pub mod Named
pub mod Walk
pub mod Write
