-- Laws over plain variables, which the proofs of the functions cite.
pub mod Checking
