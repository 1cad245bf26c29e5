pub mod Boards
pub mod Plans
pub mod Settles
mod Seals
