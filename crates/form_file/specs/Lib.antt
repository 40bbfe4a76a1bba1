-- What the contracts cite.
pub mod First
pub mod Words
pub mod Said
pub mod Steps
pub mod Heard
pub mod FormFile
pub mod Going
