-- Document 02's W3 as definitions, in its words: what a reader must believe. No law is stated or cited here; those are in Laws.
pub mod Lifting
pub mod Netpbm
pub mod Calls
pub mod Answers
