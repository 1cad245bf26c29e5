-- What laws and code need, and no definition of the product rests on.
pub mod Sum
pub mod SumLaws
pub mod Both
pub mod BothLaws
pub mod SumStages
pub mod BothStages
pub mod Count
pub mod Uses
pub mod Paths
