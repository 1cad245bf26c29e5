-- What laws and code need, and no definition rests on.
pub mod Kept
pub mod Rests
