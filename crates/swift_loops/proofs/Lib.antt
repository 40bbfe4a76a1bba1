-- The laws that the functions' proofs cite.
pub mod Beside
pub mod Fronting
pub mod PairEntries
pub mod OnePair
pub mod Running
pub mod StraightLoop
pub mod Swiftly
