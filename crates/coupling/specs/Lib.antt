pub mod Couples
pub mod Growing
pub mod Sides
pub mod Steps
