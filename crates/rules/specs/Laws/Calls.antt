-- The calls: what each comes back with in which case, exports by way of their routines, and the demands, last of lent memory.
pub mod Refused
