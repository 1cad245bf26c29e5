-- What every run keeps.
pub mod Sound
pub mod Worked
