pub mod Benches
pub mod Histories
pub mod Laws
pub mod Runs
