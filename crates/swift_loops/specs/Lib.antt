-- What the contracts cite.
pub mod Pairs
pub mod Swift
