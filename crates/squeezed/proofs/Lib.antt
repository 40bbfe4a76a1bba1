-- What the functions' proofs cite.
pub mod Arms
pub mod Quarters
pub mod Squeezed
pub mod Tests
pub mod Words
