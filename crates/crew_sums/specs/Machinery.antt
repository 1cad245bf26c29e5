-- What code and laws need, and no definition rests on.
pub mod Marks
pub mod Plain
pub mod Shifting
