pub mod Flights
pub mod Legs
pub mod Keys
pub mod Legality
pub mod Duties
pub mod Events
pub mod Pairings
pub mod FollowOns
pub mod Vectors
pub mod Local
pub mod Machinery
-- of crates below this one, which those above cite through it
pub use Rattle.crew_flights.specs as crew_flights
pub use Rattle.crew_rules.specs as crew_rules
