pub mod Bytes
pub mod Finding
pub mod Known
pub mod Lines
pub mod NameBytes
pub mod Names
pub mod Reading
