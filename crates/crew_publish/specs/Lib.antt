pub mod Chain
pub mod Views
pub mod Faults
pub mod Machinery
-- of crates below this one, which those above cite through it
pub use Rattle.crew_version.specs as crew_version
