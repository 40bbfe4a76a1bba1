-- The laws that the functions' proofs cite, each over the colour.
pub mod Colours
pub mod Entries
pub mod PairTable
pub mod Rows
