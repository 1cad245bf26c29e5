-- Bounds under which sums fit, and the first of several breaches.
pub mod Firsts
pub mod Ranges
