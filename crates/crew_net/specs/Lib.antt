pub mod Nodes
pub mod Events
pub mod Nets
pub mod Layers
pub mod Ranks
pub mod Positions
pub mod Machinery
-- of crates below this one, which those above cite through it
pub use Rattle.crew_flights.specs as crew_flights
