pub mod Faults
pub mod Machinery
