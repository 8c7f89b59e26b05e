pub mod Fields
pub mod Tests
pub mod Written
pub mod Listed
pub mod Numbered
pub mod Words
pub mod Directions
