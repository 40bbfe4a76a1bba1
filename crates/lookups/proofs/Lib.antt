-- What the functions' proofs cite.
pub mod Computed
