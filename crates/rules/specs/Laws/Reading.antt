-- Reading any bytes: the order of parts and which are usable; the outcome of each step by its case; what is known of what was read.
pub mod Parts
pub mod Stands
pub mod Walk
pub mod WholeParts
pub mod CutPart
pub mod Local
pub mod OneWalk
