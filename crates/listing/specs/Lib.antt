-- What the contracts cite.
pub mod Program
