pub mod Arrived
pub mod Cases
pub mod Exports
pub mod Memory
pub mod Refused
pub mod Results
pub mod Whole
