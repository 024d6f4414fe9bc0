-- The lists of all levels, between parts: sound at the start and after each part, and the same for coder and decoder in a level still usable.
pub mod Weight
pub mod Sound
pub mod Parts
pub mod Start
pub mod Record
pub mod Agreement
