-- What the contracts cite.
pub mod Store
