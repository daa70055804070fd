-- Laws that later crates cite too.
-- Permutation: an order names each vertex exactly once. Gathering: stores through a list of places.
pub mod Permutation
pub mod Gathering
