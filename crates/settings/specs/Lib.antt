-- What the contracts cite.
pub mod Settings
pub mod Between
pub mod Ends
