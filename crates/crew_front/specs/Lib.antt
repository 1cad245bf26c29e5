pub mod Walks
pub mod Offers
pub mod Machinery
