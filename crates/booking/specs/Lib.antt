-- What the contracts cite.
pub mod Tests
pub mod Testing
pub mod Found
pub mod Moving
pub mod Showing
pub mod Verdict
pub mod Steps
pub mod Booked
pub mod Means
