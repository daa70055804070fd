-- Crossing: what the crossing query answers and leaves. Least: the least weight so far.
pub mod Crossing
pub mod Least
