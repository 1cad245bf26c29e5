pub mod Faults
pub mod Program
