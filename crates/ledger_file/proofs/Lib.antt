-- Laws over plain variables, which the proofs of the functions cite, and sheets.
pub mod Fielding
pub mod Paging
pub mod Naming
pub mod Numerals
pub mod Tabless
pub mod TotalWords
pub mod Rereading
pub mod Resuming
pub mod Totalling
pub mod Names
pub mod Tallies
pub mod Adding
pub mod TotalLines
pub mod Fitting
pub mod Parted
pub mod Apart
mod Sheets
