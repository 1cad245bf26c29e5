-- What only the code and its proofs speak of.
pub mod Kept
pub mod Rounds
pub mod Sealed
