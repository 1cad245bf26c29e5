pub mod Passes
pub mod Plain
pub mod Machinery
-- of crates below this one, which those above cite through it
pub use Rattle.crew_answers.specs as crew_answers
pub use Rattle.crew_answers.specs.crew_history
pub use Rattle.crew_answers.specs.crew_long
pub use Rattle.crew_pool.specs as crew_pool
