pub mod Kept
pub mod Played
pub mod Stepped
pub mod Wanting
