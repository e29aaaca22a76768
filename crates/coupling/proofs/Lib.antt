pub mod Abreast
pub mod Beside
pub mod Draws
pub mod Grows
pub mod Whole
