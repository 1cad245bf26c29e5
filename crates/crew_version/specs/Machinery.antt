-- What a version keeps while it works.
pub mod Chunks
pub mod Kept
