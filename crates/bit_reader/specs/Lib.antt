pub mod Word
pub mod Cursor
pub mod Loaded
pub mod Zeros
