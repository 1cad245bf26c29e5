-- What shows that a number of a seat has one place, and that no place is left out.
pub mod Rights
pub mod Draws
