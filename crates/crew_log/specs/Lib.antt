pub mod Logs
pub mod Faults
pub mod Machinery
