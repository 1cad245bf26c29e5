pub mod DashFacts
pub mod DropFacts
pub mod DutyFacts
pub mod NumberFacts
pub mod SpaceFacts
pub mod WalkFacts
