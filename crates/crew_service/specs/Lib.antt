pub mod Plans
pub mod Faults
pub mod Next
pub mod Machinery
