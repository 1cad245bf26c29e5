pub mod Grounds
pub mod Jobs
pub mod Lots
pub mod Shown
pub mod Machinery
-- of crates below this one, which those above cite through it
pub use Rattle.crew_dirty.specs as crew_dirty
pub use Rattle.crew_version.specs.crew_fronts
pub use Rattle.crew_version.specs.crew_plan
pub use Rattle.crew_version.specs as crew_version
