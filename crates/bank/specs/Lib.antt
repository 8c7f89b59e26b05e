pub mod Places
pub mod Halves
pub mod Banks
pub mod Sizes
pub mod HalvesLemmas
