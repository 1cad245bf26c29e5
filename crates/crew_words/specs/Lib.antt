pub mod Help
pub mod Options
pub mod Words
