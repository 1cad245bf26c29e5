-- What only the code and its proofs speak of.
pub mod Windows
pub mod Marks
pub mod Places
