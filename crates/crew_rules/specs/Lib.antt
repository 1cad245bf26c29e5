pub mod Pay
pub mod Range
pub mod Settings
pub mod Tables
