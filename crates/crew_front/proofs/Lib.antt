pub mod EntryLemmas
pub mod OfferLocal
mod GradeLemmas
