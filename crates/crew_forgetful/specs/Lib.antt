pub mod Forgetful
pub mod Lapses
pub mod Marks
pub mod Misleading
pub mod Sweeps
pub mod Machinery
