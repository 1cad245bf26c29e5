pub mod Listed
pub mod Ordered
pub mod Passed
pub mod Places
pub mod Ranked
pub mod Sweeps
pub mod Valued
pub mod Remembered
-- of crates below this one, which those above cite through it
pub use Rattle.crew_answers.proofs as crew_answers_lemmas
pub use Rattle.crew_solve.proofs.crew_duty_lemmas
pub use Rattle.crew_solve.proofs as crew_solve_lemmas
