pub mod Jobs
pub mod Walks
pub mod Pools
pub mod Machinery
