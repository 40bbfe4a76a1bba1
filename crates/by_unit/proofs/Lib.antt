-- The laws that the functions' proofs cite.
pub mod Leaves
pub mod Closing
pub mod Units
pub mod Parts
pub mod Slices
pub mod Taking
pub mod States
pub mod SwiftUnits
pub mod Tests
pub mod Turning
