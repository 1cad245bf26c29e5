-- How walks are linked, which labels a pool leaves free, and marks by column.
pub mod ArenaLinks
pub mod Columns
pub mod Links
pub mod Meets
