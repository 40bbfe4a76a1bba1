pub mod Packed
pub mod Outcome
pub mod Steps
pub mod Turning
