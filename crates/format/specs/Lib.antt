pub mod Layouts
pub mod Numbers
pub mod Openings
pub mod Sheets
pub mod Stops
