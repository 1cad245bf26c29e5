pub mod Cells
pub mod Boards
pub mod Calls
pub mod Lots
pub mod Machinery
-- of crates below this one, which those above cite through it
pub use Rattle.crew_job.specs.crew_dirty
pub use Rattle.crew_job.specs as crew_job
pub use Rattle.crew_machine.specs as crew_machine
pub use Rattle.crew_job.specs.crew_plan
pub use Rattle.crew_round.specs as crew_round
pub use Rattle.crew_job.specs.crew_version
