-- What the contracts cite.
pub mod Lined
