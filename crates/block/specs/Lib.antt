pub mod Tables
pub mod States
