-- What the contracts cite.
pub mod Tags
pub mod Ahead
pub mod Lined
pub mod Recovery
