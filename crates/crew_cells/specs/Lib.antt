pub mod Rules
pub mod Shapes
pub mod Machinery
