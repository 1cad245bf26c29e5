pub mod Limits
pub mod LongPairings
pub mod Histories
pub mod HistoryValues
pub mod Machinery
-- of crates below this one, which those above cite through it
pub use Rattle.crew_pairing.specs as crew_pairing
