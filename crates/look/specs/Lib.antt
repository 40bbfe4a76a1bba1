-- What the contracts cite.
pub mod Phrases
pub mod Escaped
pub mod Pieces
pub mod Base64
pub mod Bitmap
