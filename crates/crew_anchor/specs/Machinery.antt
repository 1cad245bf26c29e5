-- How far sums reach, and the laws of anchored vectors as a resource.
pub mod AnchorLaws
pub mod Bounds
pub mod Marks
pub mod Shifts
pub mod Values
pub mod Narrow
