-- Document 01 as definitions, one module a section, in its order and words: what a reader must believe.
-- No law is stated or cited here; those are in Laws.
pub mod Notation
pub mod Pyramid
pub mod Passes
pub mod Layout
pub mod Numbers
pub mod Calls
pub mod Answers
