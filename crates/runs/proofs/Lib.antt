pub mod Benches
pub mod Legal
pub mod Lines
pub mod Observed
pub mod Runs
pub mod Sections
pub mod Signal
pub mod Steps
