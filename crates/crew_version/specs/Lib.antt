pub mod Versions
pub mod Drafts
pub mod Faults
pub mod Fronts
pub mod Machinery
-- of crates below this one, which those above cite through it
pub use Rattle.crew_plan.specs.crew_fronts
pub use Rattle.crew_plan.specs.crew_pass
pub use Rattle.crew_plan.specs as crew_plan
pub use Rattle.crew_plan.specs.crew_solve
pub use Rattle.crew_plan.specs.crew_step
