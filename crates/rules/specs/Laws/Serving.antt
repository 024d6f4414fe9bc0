-- Serving: a selection of a record's parts is a record, what is served is one, and served again it is as if served once.
pub mod Selection
