-- What the contracts cite.
pub mod Text
pub mod Lines
pub mod Sheet
pub mod Writing
pub mod Line
pub mod Reading
pub mod Listed
