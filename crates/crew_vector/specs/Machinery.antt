-- How the seven parts stand side by side, and what the laws work with.
pub mod Along
pub mod Amounts
pub mod Named
pub mod Numbers
pub mod Pruned
pub mod Sides
pub mod SidesLaws
pub mod VectorLaws
pub mod VectorResources
