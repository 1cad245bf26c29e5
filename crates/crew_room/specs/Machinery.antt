-- What code needs, and no definition rests on.
pub mod Glances
pub mod Joins
