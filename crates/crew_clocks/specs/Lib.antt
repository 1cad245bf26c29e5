pub mod Civil
pub mod Faults
pub mod Zone
