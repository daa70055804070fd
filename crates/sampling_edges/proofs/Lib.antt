-- Sampling: laws of the draws.
pub mod Sampling
