pub mod PerLines
pub mod Sections
pub mod States
