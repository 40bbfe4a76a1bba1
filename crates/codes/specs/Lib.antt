pub mod Runs
pub mod Fronts
pub mod Plain
pub mod Modes
pub mod Eols
