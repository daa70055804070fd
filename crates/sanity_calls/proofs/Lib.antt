-- Laws that the proofs of this crate cite, and the theorem that other crates need.
-- Verdicts: the verdict from its parts. Theorems: verdict 0 for a sound graph with its own lists.
pub mod Verdicts
pub mod Theorems
