pub mod Exchange
pub mod Growing
pub mod Telling
pub mod Finding
