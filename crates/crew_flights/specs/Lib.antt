pub mod Codes
pub mod Edits
pub mod Fold
pub mod FollowOns
pub mod Places
pub mod Refusals
pub mod Timetable
pub mod Turns
-- of crates below this one, which those above cite through it
pub use Rattle.crew_time.specs as crew_time
