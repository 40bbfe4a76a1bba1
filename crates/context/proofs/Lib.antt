-- The laws that the functions' proofs cite, and those that crates above need beside the contracts.
pub mod State
pub mod Carried
pub mod Goes
pub mod Moves
pub mod Idle
pub mod RowTest
pub mod Search
pub mod Signed
pub mod RowPart
pub mod Placing
