-- What the readers of fields work with.
pub mod Cuts
