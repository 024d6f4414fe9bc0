-- Decoding what arrived of a coder's record: each level is known to the plane that it reached, its magnitudes rounded toward zero.
pub mod Planes
pub mod KnownState
pub mod CutTurn
pub mod Arrival
pub mod CutRun
