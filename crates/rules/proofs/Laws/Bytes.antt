pub mod BodyBack
pub mod NumberBack
pub mod Numbers
pub mod Output
pub mod PartBack
pub mod RecordBack
pub mod Room
