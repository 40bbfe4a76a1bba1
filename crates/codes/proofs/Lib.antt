-- The laws that the functions' proofs cite.
pub mod Runs
pub mod Looking
pub mod Fronts
pub mod Verdicts
pub mod Comparing
pub mod Modes
pub mod Eols
