pub mod Sweeps
pub mod Machinery
-- of crates below this one, which those above cite through it
pub use Rattle.crew_carry.specs as crew_carry
pub use Rattle.crew_carry.specs.crew_step
