pub mod Ranges
pub mod Characters
pub mod Steps
pub mod Reading
pub mod Agreement
pub mod Sums
pub mod Judging
