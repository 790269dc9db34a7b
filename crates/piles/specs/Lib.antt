pub mod Windows
pub mod Exchanged
pub mod Clocks
