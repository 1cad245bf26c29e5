-- What code and laws need, and no definition rests on.
pub mod Joined
pub mod JoinedLaws
pub mod Marks
pub mod Ranks
pub mod Lapses
