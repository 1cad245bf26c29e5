pub mod Checked
mod Rates
