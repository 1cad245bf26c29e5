pub mod Missing
pub mod InRange
pub mod Tests
pub mod Vectors
pub mod Caps
pub mod ShortPartials
pub mod ShortFronts
pub mod ShortBests
pub mod ShortLocals
pub mod Ranking
pub mod Told
pub mod Nodes
pub mod Parts
pub mod KeptHistories
pub mod Growth
pub mod PlainNodes
pub mod Grown
pub mod Feeding
pub mod Listed
pub mod Unique
pub mod Cheapest
pub mod OneBest
pub mod Recalled
pub mod LongNodes
pub mod LongSteps
pub mod LongListed
pub mod Scheduled
-- of crates below this one, which those above cite through it
pub use Rattle.crew_history.proofs as crew_history_lemmas
pub use Rattle.crew_vector.proofs as crew_vector_lemmas
