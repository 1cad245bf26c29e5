pub mod Sums
pub mod Passes
pub mod Machinery
