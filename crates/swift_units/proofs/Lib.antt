-- Laws for the proofs of the functions.
pub mod Counting
