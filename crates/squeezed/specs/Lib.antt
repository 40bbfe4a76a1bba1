-- What the functions' contracts cite.
pub mod Words
