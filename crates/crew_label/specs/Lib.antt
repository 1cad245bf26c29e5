pub mod Walks
pub mod Pools
pub mod Boarding
pub mod Tables
pub mod Machinery
pub mod Alike
