pub mod Terms
pub mod Held
pub mod Candidates
pub mod Labellings
pub mod Passes
pub mod Right
pub mod Beside
