-- Verdicts: the columns of a built code get verdict 0.
pub mod Verdicts
