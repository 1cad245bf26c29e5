pub mod LongVectors
pub mod Dominance
pub mod Fronts
pub mod Locals
pub mod Bests
pub mod Shown
pub mod Schedules
pub mod ShortPairings
pub mod Machinery
-- of crates below this one, which those above cite through it
pub use Rattle.crew_history.specs as crew_history
pub use Rattle.crew_long.specs as crew_long
pub use Rattle.crew_vector.specs as crew_vector
