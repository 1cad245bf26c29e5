-- The pairings that come home, those taken of them, and the fronts that are lent.
pub mod Early
pub mod Floors
pub mod Homes
pub mod Keeps
pub mod Keyed
pub mod Lent
pub mod Planned
pub mod Solved
pub mod Takes
