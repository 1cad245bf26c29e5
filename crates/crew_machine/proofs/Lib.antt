pub mod Alike
pub mod Boards
pub mod Cells
pub mod Chosen
pub mod Claimed
mod Counts
pub mod CrewLaws
pub mod Decided
pub mod Finish
pub mod Least
pub mod Logged
pub mod Marked
pub mod NodeList
pub mod OwnJobs
pub mod Progress
mod Published
pub mod Reached
pub mod Replies
pub mod Reuse
pub mod Runs
pub mod Served
pub mod Sorted
-- of crates below this one, which those above cite through it
pub use Rattle.crew_answers.proofs as crew_answers_lemmas
