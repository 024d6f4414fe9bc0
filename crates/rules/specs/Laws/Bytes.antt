-- The bytes of numbers, bodies, parts and records: how they are written, how many they are, and that they read back, whole or cut.
pub mod Numbers
pub mod NumberBack
pub mod PartBack
pub mod RecordBack
pub mod Output
