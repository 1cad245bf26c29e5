pub mod Standing
pub mod Joined
pub mod Boarded
pub mod Sorted
