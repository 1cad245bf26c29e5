-- What laws and code need, and no definition rests on.
pub mod Folds
pub mod RestOrder
pub mod RestStages
pub mod Counted
pub mod RecentStages
pub mod Lapsing
