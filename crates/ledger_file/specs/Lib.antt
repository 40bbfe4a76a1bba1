-- What the contracts cite.
pub mod Fields
pub mod Page
pub mod Resume
pub mod Total
pub mod Sums
pub mod Tallying
pub mod Parts
