-- Laws.
pub mod Spoken
pub mod Escaping
pub mod Naming
pub mod Coding
pub mod Decoding
pub mod Stating
