-- Diagonal: the diagonal probability of kind 4.
pub mod Diagonal
