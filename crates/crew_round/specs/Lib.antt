pub mod Marks
pub mod Machinery
