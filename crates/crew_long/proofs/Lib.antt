pub mod RestValues
pub mod Taken
pub mod WindowValues
-- of crates below this one, which those above cite through it
pub use Rattle.crew_history.proofs as crew_history_lemmas
