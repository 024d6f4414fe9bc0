-- What follows from the definitions of Document.
pub mod Algebra
pub mod ByName
pub mod Gathered
pub mod JoinDetermined
pub mod JoinRefusals
pub mod JoinRoom
pub mod Joined
pub mod JoinedSelections
pub mod JoiningCases
