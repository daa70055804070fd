-- Nearest: the least weight so far. Cases: what is said of a reply determines its case.
mod Nearest
pub mod Cases
