pub mod Lists
pub mod Besides
