-- One pass, whatever the bits: its visits as equations, what each keeps, the lists that it makes, their levels, room and lengths; and
-- that the decoder, on the coder's bits, makes the coder's lists.
pub mod Steps
pub mod Kept
pub mod Lists
pub mod Levels
pub mod Slots
pub mod Bounds
pub mod Simulation
pub mod Early
