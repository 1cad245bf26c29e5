pub mod Worlds
pub mod Rounds
pub mod Steps
pub mod Chains
pub mod Choices
pub mod Crew
pub mod Machinery
-- of crates below this one, which those above cite through it
pub use Rattle.crew_answers.specs as crew_answers
