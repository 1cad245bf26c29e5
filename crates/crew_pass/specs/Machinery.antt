-- What code needs, and no definition rests on.
pub mod Terms
pub mod Passing
pub mod Shelves
pub mod Seen
pub mod Cells
pub mod Plain
pub mod Stretches
pub mod Beside
pub mod Twins
pub mod Ended
