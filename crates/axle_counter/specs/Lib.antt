pub mod Totals
pub mod AxleCounters
