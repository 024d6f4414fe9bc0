-- The words of what is promised, to be read right after Document: Vocabulary and Refusals have them, Memory those that say it of lent memory.
-- Cases is a table of worked bytes and numbers. The theorems stand in proofs/Promises, demand by demand.
pub mod Vocabulary
pub mod Refusals
pub mod Memory
pub mod Cases
