-- Laws that the proofs of this crate and of later crates cite.
-- Refusals: what an accepted call says.
pub mod Refusals
-- Filling: what an accepted fill_vertices says.
pub mod Filling
