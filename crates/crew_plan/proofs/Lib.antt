pub mod Shorter
pub mod Reach
pub mod Placed
pub mod Tied
pub mod Firsts
pub mod Rising
pub mod Homing
pub mod Paying
pub mod Among
pub mod Answering
pub mod OneList
pub mod Sharing
pub mod Below
pub mod Owned
-- of crates below this one, which those above cite through it
pub use Rattle.crew_fronts.proofs.crew_answers_lemmas
pub use Rattle.crew_fronts.proofs.crew_duty_lemmas
