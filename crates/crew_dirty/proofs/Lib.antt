pub mod Taken
pub mod Flagged
pub mod Paths
pub mod Aligned
pub mod Arrivals
pub mod Alike
pub mod Sames
pub mod Passed
pub mod Nodes
pub mod Priced
pub mod Unchanging
pub mod Fronts
pub mod BasePlaces
-- of crates below this one, which those above cite through it
pub use Rattle.crew_answers.proofs as crew_answers_lemmas
pub use Rattle.crew_carry.proofs.crew_step_lemmas
