-- The tree in which legal duties are found, and what its theory works with.
pub mod Beginnings
pub mod Blocks
pub mod Listing
