pub mod Fronts
pub mod Parts
pub mod Turns
pub mod Sifts
