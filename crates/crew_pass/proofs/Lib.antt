pub mod Alike
mod Shelved
mod Known
mod Collected
mod Arriving
mod More
mod Before
mod Based
mod Steps
mod Linked
mod Boardings
mod Gathered
mod Stretched
-- of crates below this one, which those above cite through it
pub use Rattle.crew_answers.proofs as crew_answers_lemmas
pub use Rattle.crew_answers.proofs.crew_history_lemmas
pub mod Taken
pub mod Staying
pub mod Twinned
pub mod Likened
