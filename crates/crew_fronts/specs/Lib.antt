pub mod Fronts
pub mod Machinery
-- of crates below this one, which those above cite through it
pub use Rattle.crew_answers.specs as crew_answers
pub use Rattle.crew_pass.specs.crew_history
pub use Rattle.crew_pass.specs as crew_pass
pub use Rattle.crew_solve.specs as crew_solve
pub use Rattle.crew_solve.specs.crew_step
pub use Rattle.crew_solve.specs.crew_sweep
