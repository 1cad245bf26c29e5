-- What only the code and its proofs speak of.
pub mod Cells
pub mod Lines
pub mod Held
