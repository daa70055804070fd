-- Entries: the entries of a row, edges in the middle removed. Nearest: the nearest virtual vertex in a table.
pub mod Entries
pub mod Nearest
