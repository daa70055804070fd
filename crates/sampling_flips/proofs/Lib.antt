-- Flipping: laws of the defect flip, which later crates cite too.
pub mod Flipping
