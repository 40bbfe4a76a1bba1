-- What the contracts cite.
pub mod Verdicts
pub mod Books
pub mod Phrases
pub mod Said
pub mod Entered
pub mod Balance
pub mod Lines
