pub mod Pushed
pub mod Paired
pub mod Matching
pub mod Arriving
pub mod Standing
pub mod Ties
pub mod SameDuties
pub mod Carrying
pub mod CarriedLabels
pub mod Permuted
-- of crates below this one, which those above cite through it
pub use Rattle.crew_step.proofs as crew_step_lemmas
