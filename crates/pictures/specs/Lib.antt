pub mod Document
pub mod Laws
