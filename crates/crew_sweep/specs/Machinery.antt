-- Events by number, the slides of windows, and what a sweep keeps of its labels and knows of its pools.
pub mod Numbered
pub mod Kept
pub mod Digests
pub mod Passing
pub mod Parts
pub mod Sliding
pub mod Slides
pub mod Grounds
pub mod Renewing
pub mod Beside
pub mod Mending
pub mod Ahead
pub mod Lanes
pub mod Same
pub mod Boardings
