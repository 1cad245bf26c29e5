-- What only the code and its proofs speak of.
pub mod Drafted
pub mod Held
pub mod Compared
