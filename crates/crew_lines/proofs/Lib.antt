pub mod BeginningFacts
pub mod ByteFacts
pub mod FoundFacts
pub mod HeldFacts
pub mod LineFacts
pub mod NameFacts
pub mod ReadFacts
