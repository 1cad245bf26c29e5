-- What code needs, and no definition rests on.
pub mod Indexes
pub mod Marks
pub mod Merges
pub mod Rules
pub mod Runs
pub mod Seeing
