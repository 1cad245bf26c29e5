pub mod Arena
pub mod Apart
pub mod LabelWalks
pub mod Ranks
pub mod Renumbered
pub mod Counted
pub mod Marks
pub mod Machinery
