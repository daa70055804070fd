-- Kept: the graph up to the new numbers, question 7 and walks. Moved: what moves with a vertex. Syndromes: syndromes, and what is kept together.
pub mod Kept
pub mod Moved
pub mod Syndromes
