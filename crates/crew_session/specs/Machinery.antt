-- What the journal, the engine and the machine keep while they work.
pub mod Endings
pub mod Journals
pub mod Plains
pub mod Players
pub mod Told
