-- Ranges: laws of the tests for p and pe.
pub mod Ranges
