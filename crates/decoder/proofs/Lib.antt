pub mod LawsAnswer
pub mod LawsPart
pub mod LawsOutcome
pub mod LawsLaid
pub mod LawsWalk
