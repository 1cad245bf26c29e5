-- What laws and code need, and no definition rests on.
pub mod Sums
pub mod Swept
