pub mod Trees
pub mod Sets
pub mod Visits
pub mod Pass
