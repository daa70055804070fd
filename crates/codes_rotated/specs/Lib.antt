-- Kinds 5 and 6.
pub mod Rotated
