pub mod Values
pub mod Dominance
pub mod Events
pub mod Fronts
pub mod Locals
pub mod Bests
pub mod Machinery
