-- The tree in which partial pairings are found, and bounds under which sums fit.
pub mod Endings
pub mod Leaving
pub mod Listing
pub mod Ranges
pub mod Taking
