pub mod Answers
pub mod Circles
pub mod Files
pub mod Held
pub mod Laws
pub mod Lists
pub mod Words
pub mod Writing
