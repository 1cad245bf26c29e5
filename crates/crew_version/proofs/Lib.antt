pub mod Places
pub mod Chunked
pub mod OpeningFacts
pub mod SolutionFacts
pub mod Alongside
pub mod SameTimetable
-- of crates below this one, which those above cite through it
pub use Rattle.crew_plan.proofs.crew_duty_lemmas
pub use Rattle.crew_plan.proofs as crew_plan_lemmas
pub use Rattle.crew_vector.proofs as crew_vector_lemmas
