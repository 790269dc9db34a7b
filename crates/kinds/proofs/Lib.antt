pub mod Copies
pub mod WellFormed
pub mod Makings
