-- The laws that the functions' proofs and the promises cite.
pub mod Tests
pub mod Sums
pub mod Runs
pub mod RowsAt
pub mod Pixelled
pub mod Twos
pub mod Ticks
pub mod OneTick
pub mod Marks
pub mod Quota
pub mod Lengths
pub mod Numbered
pub mod Answering
pub mod Sheets
