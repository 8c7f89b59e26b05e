pub mod Answers
pub mod Works
