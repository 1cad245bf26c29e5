pub mod Solutions
pub mod Plans
pub mod Cheapest
pub mod Apart
pub mod Machinery
-- of crates below this one, which those above cite through it
pub use Rattle.crew_sweep.specs.crew_step
pub use Rattle.crew_sweep.specs as crew_sweep
pub use Rattle.crew_vector.specs as crew_vector
