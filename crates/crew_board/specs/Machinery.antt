-- What only the code and its proofs speak of.
pub mod Held
pub mod Likes
pub mod Turns
pub mod Settled
