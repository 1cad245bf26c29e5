pub mod Members
pub mod Entries
pub mod Resource
pub mod Stages
pub mod Labels
pub mod Events
pub mod Chains
pub mod Machinery
