pub mod Answers
pub mod Differing
pub mod Lacking
pub mod Laws
pub mod Verdict
