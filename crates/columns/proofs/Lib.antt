-- Laws that the proofs of this crate and of later crates cite.
-- Counting: each, joined, layered. Columns: runs of stores, a column afterwards. Tests: a test of every element.
-- Refusals: what an accepted question says, and columns by a map. Widths: the widths of a stored weight and of a weight in a table.
pub mod Counting
pub mod Columns
pub mod Tests
pub mod Refusals
pub mod Widths
