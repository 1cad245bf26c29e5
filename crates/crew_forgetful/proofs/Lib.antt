pub mod Covered
pub mod Offers
pub mod Views
pub mod Sweep
pub mod Fronts
pub mod Parts
pub mod Misleading
