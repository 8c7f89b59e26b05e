pub mod Records
pub mod Changes
pub mod Codes
pub mod Lines
pub mod Sendings
