mod Values
mod Paths
mod Counting
