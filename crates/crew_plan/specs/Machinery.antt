-- What only the code and its proofs speak of.
pub mod Homes
pub mod Kept
pub mod Kinds
