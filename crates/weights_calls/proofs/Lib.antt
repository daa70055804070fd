-- Laws that the proofs of this crate and of later crates cite, and the theorems about the definitions.
-- Equal: equal probabilities have equal weights. Tables: the table of a pass. Largest: the largest weight. Theorems: what document 01 says of half weights.
pub mod Equal
pub mod Tables
pub mod Largest
pub mod Theorems
