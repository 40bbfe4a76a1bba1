-- Laws that the crates above cite.
pub mod Ended
pub mod Ends
pub mod Rowed
