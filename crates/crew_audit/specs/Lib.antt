pub mod Faults
pub mod Partials
pub mod Tallies
pub mod Machinery
