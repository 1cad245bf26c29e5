pub mod RestEnds
pub mod Recents
pub mod Machinery
-- of crates below this one, which those above cite through it
pub use Rattle.crew_history.specs as crew_history
