pub mod Commands
pub mod Faults
pub mod Schedules
pub mod Fields
pub mod Machinery
