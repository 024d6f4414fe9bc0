pub mod Agreement
pub mod Parts
pub mod Record
pub mod Sound
pub mod Start
pub mod Weight
