-- The laws that the functions' proofs cite.
pub mod Outcomes
pub mod Swiftly
