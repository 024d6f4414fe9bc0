-- What is promised, each theorem with a line that cites the law that proves it: Memory says it of lent memory, One, Two and Three demand by demand,
-- Determined that no other outcome is allowed, and Handed that a routine hands back no other. Cases proves the table of worked bytes and numbers.
-- Their words are in specs/Promises.
pub mod Memory
pub mod One
pub mod Two
pub mod Three
pub mod Determined
pub mod Handed
pub mod Cases
