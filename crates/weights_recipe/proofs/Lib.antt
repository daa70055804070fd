-- Laws that the proofs of this crate and of later crates cite.
-- Floats: the constants, the bits of 0. Recipe: the turns of the logarithm's loop. Halvings: its bound is never met, and the text's own words.
-- Search: what v reaches, and the greatest.
pub mod Floats
pub mod Recipe
pub mod Halvings
pub mod Search
