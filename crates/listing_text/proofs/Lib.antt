-- Laws over plain variables, which the proofs of the functions cite.
pub mod Written
pub mod Digits
pub mod Spelling
pub mod Parting
pub mod Standing
pub mod Lined
pub mod Rowing
pub mod Lengths
pub mod Whole
pub mod Stored
pub mod Wall
pub mod Piecing
pub mod Lining
