pub mod Machines
pub mod Replies
pub mod Memory
pub mod Plays
pub mod Machinery
