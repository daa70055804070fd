-- Laws that the proofs of this crate and of later crates cite.
-- Moving: moved neighbour lists. Accepting: what an accepted call says, and what a call answers and leaves.
pub mod Moving
pub mod Accepting
