pub mod Dirty
pub mod Carried
pub mod Unchanged
pub mod Machinery
-- of crates below this one, which those above cite through it
pub use Rattle.crew_answers.specs as crew_answers
