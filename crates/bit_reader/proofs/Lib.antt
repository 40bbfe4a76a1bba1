pub mod Window
pub mod Cursor
pub mod Clear
