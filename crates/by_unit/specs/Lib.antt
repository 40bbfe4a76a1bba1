-- What the contracts cite.
pub mod Standing
pub mod OneUnit
pub mod Swift
pub mod Taking
pub mod Reading
