-- The logarithm and the rounding of document 01's section "Weights", and question 9.
-- Constants: the f64 numbers by their bits. Probabilities: question 9. Logarithm: the weight of an edge. Rounding: the half weight of an edge.
pub mod Constants
pub mod Probabilities
pub mod Logarithm
pub mod Rounding
