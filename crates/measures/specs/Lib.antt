pub mod Rfc3629
pub mod Judged
pub mod Widths
pub mod Counts
pub mod Laws
