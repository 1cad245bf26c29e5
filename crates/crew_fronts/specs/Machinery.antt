-- What only the code and its proofs speak of.
pub mod Listed
pub mod Values
pub mod Kept
pub mod Walks
pub mod Lent
pub mod Kinds
pub mod Bases
