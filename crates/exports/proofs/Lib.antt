pub mod RowState
pub mod UnitState
pub mod Verdict
