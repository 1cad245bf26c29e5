pub mod Answers
pub mod Clients
pub mod Conversations
pub mod Faults
pub mod Rosters
pub mod Serving
pub mod Workers
pub mod Machinery
-- of a crate below this one, which those above cite through it
pub use Rattle.crew_session.specs as crew_session
