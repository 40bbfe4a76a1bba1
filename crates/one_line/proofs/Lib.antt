-- The laws that the functions' proofs cite.
pub mod RunLoop
pub mod ModeCode
pub mod OneCode
pub mod LineLoop
pub mod SwiftLine
pub mod OneLine
pub mod WhiteLine
