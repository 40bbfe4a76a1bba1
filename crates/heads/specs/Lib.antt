-- What the contracts cite.
pub mod Form
pub mod Steps
pub mod Numbers
