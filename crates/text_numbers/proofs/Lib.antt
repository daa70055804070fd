-- Putting: bytes one after another. Sizes: how long numbers and lines are.
pub mod Putting
pub mod Sizes
