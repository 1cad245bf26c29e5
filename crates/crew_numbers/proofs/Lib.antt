pub mod Gets
pub mod Keeping
pub mod Shown
pub mod Takes
