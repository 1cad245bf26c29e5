pub mod Rules
pub mod Explanations
pub mod Machinery
