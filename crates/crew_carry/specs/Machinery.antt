-- What two lists in one order have in common, duties that are the same, and walks that stand where they
-- stood.
pub mod Matches
pub mod Sames
pub mod Places
