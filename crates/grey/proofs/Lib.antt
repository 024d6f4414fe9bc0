pub mod Laws
pub mod Judged
pub mod Taking
pub mod Printing
