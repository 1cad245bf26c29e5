mod Counted
mod Lowered
mod Rows
