pub mod AsBefore
pub mod BaseSweeps
pub mod Comparing
pub mod FoundDuties
pub mod GroundNodes
pub mod JobNodes
pub mod Lots
pub mod NodePlaces
pub mod OwnPlaces
pub mod Planned
pub mod SealedNodes
pub mod Standing
pub mod Works
pub mod Leaving
-- of crates below this one, which those above cite through it
pub use Rattle.crew_dirty.proofs as crew_dirty_lemmas
pub use Rattle.crew_version.proofs.crew_duty_lemmas
pub use Rattle.crew_version.proofs.crew_plan_lemmas
pub use Rattle.crew_dirty.proofs.crew_step_lemmas
pub use Rattle.crew_version.proofs.crew_vector_lemmas
pub use Rattle.crew_version.proofs as crew_version_lemmas
