-- What the contracts cite.
pub mod OneCode
pub mod OneLine
pub mod Kept
pub mod White
