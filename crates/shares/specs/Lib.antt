pub mod Circle
pub mod Polynomial
pub mod Weights
pub mod Laws
