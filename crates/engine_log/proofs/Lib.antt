-- Loads: laws of loads and of their undoing.
pub mod Loads
