pub mod Tags
pub mod Meaning
pub mod Table
pub mod Window
pub mod Clock
pub mod Sifted
