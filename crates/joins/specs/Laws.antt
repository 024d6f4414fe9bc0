-- The words in which the laws of proofs/Laws are said.
pub mod JoiningCases
pub mod ByName
pub mod Gathered
pub mod Joined
pub mod JoinedSelections
pub mod JoinCauses
pub mod JoinRefusals
