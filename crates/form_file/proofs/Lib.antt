-- Laws over plain variables, which the proofs of the functions cite, and sheets.
pub mod Ahead
pub mod Wording
pub mod Saying
pub mod Numbering
pub mod Firsts
pub mod Sound
pub mod Fours
pub mod Hearing
pub mod Forming
mod Sheets
