-- What the contracts cite.
pub mod Putting
pub mod Coding
pub mod Paging
pub mod Paging3
pub mod Outcome
pub mod Bounds
pub mod Meeting
pub mod Meeting3
