-- What follows from the definitions of Document, by subject. Promises says what of it is promised.
-- The lowest of these files bring in `Cases.cases_hold` for its place alone: the table is checked before every law, so a wrong definition is refused
-- for the bytes or numbers that it gets wrong.
pub mod Counting
pub mod Family
pub mod Offspring
pub mod Pass
pub mod State
pub mod Reading
pub mod Bytes
pub mod Serving
pub mod Rounding
pub mod Calls
