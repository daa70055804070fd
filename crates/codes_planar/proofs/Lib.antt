-- Rows: a row by its parts.
pub mod Rows
