pub mod Plans
pub mod Solutions
pub mod Cheapest
pub mod Apart
pub mod Machinery
-- of crates below this one, which those above cite through it
pub use Rattle.crew_fronts.specs.crew_answers
pub use Rattle.crew_fronts.specs as crew_fronts
pub use Rattle.crew_fronts.specs.crew_pass
pub use Rattle.crew_fronts.specs.crew_solve
pub use Rattle.crew_fronts.specs.crew_step
