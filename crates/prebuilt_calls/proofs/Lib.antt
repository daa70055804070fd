-- Entries: a row written over a column. Replies: what the table query inside leaves.
pub mod Entries
pub mod Replies
pub mod Asked
pub mod Filled
pub mod Boundary
