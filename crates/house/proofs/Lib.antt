pub mod Rows
pub mod Follows
pub mod Verdicts
pub mod Whole
pub mod Bounds
pub mod Slices
pub mod Holding
mod Numbers
