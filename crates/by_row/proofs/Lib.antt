pub mod States
pub mod Allowed
pub mod ByRow
