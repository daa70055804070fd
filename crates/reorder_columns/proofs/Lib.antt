-- Copies: laws of a column that is copied, and read through an order; later crates cite them too.
pub mod Copies
