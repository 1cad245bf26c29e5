pub mod Rooms
pub mod Machinery
