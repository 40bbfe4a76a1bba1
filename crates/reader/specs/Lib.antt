pub mod Read
pub mod Reader
