-- The candidates of a job as a list, and a feed in memory.
pub mod Candidates
pub mod Feeds
