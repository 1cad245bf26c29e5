pub mod Twins
pub mod Carried
pub mod Labels
pub mod Spans
pub mod Machinery
-- of crates below this one, which those above cite through it
pub use Rattle.crew_step.specs as crew_step
