pub mod Anchors
pub mod Stages
pub mod Sweeps
pub mod Machinery
