pub mod ClerkFacts
pub mod Crossing
pub mod DeskFacts
pub mod LayoutFacts
pub mod Played
pub mod RosterFacts
pub mod TalkFacts
pub mod Told
pub mod Views
-- of a crate below this one, which those above cite through it
pub use Rattle.crew_session.proofs as crew_session_lemmas
