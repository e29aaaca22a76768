pub mod Below
pub mod Inverses
pub mod Ring
pub mod Table
