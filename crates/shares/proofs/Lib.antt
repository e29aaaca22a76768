pub mod Dots
pub mod Linear
pub mod Products
pub mod Recombined
pub mod Values
pub mod WeightSteps
