pub mod Lists
pub mod Open
pub mod Set
pub mod Past
pub mod Answers
pub mod Side
