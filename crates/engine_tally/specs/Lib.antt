-- Tally: what a list of calls says by itself. Readers: what it says of an edge's weight.
pub mod Tally
pub mod Readers
