-- What the search works with.
pub mod Counts
pub mod Filling
pub mod Followers
pub mod Held
pub mod Kept
pub mod Limits
pub mod Paths
pub mod Plans
pub mod Prices
pub mod Rooms
pub mod Running
pub mod Slots
pub mod Turns
