-- What the network works with.
pub mod Held
pub mod Made
pub mod Moments
pub mod Numbered
pub mod Raised
pub mod Runs
pub mod Ranking
pub mod Timelines
