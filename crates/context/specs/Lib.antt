-- What the contracts cite.
pub mod State
pub mod Outcome
pub mod Offset
pub mod Reference
pub mod Coding
pub mod Places
