-- Laws that the proofs of this crate and of later crates cite.
-- Inner: the byte of an inner vertex. Accepting: what an accepted call says. Draws: the same of sampling.
pub mod Inner
pub mod Accepting
pub mod Draws
