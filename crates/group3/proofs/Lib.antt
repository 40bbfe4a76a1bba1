-- The laws that the functions' proofs cite.
pub mod TagBits
pub mod Judging
pub mod Starts
pub mod Mending
pub mod Outcomes
pub mod Swiftly
