-- Filled: columns by the runs of stores that filled them. Outcome: accepted and refused. Cases: what an answer says.
pub mod Filled
pub mod Outcome
pub mod Cases
-- TwoWeights: the largest of weights that are one of two. Distances: differences of coordinates, by computation. Positions: where the vertices of a
-- code are. Diagonals: which edges of kind 4 are diagonal. Largest: the largest weight of a code. WeightedOutcome: accepted and refused.
pub mod TwoWeights
pub mod Distances
pub mod Positions
pub mod Diagonals
pub mod Largest
pub mod WeightedOutcome
