pub mod Fed
pub mod Grown
pub mod Loops
pub mod Offered
pub mod Rooms
pub mod Sames
pub mod Listed
pub mod Values
