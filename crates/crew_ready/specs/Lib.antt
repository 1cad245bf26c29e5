pub mod Counts
pub mod Firsts
pub mod Machinery
