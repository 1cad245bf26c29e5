-- What numbers work with.
pub mod Held
pub mod Kept
pub mod Taken
