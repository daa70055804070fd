-- Computed: document 01's listing and small graphs. Sums: laws of lists. LowerBound, UpperBound: potentials, cancelled walks.
-- LeastWeights, Offers, FirstLeast, Turns, Stopping: settling gives least weights, comes to rest and stops at its end. Tree, Limits: the way back, the size of sums.
-- TableAndPath, LeastCrossing, TwoGraphs: the claims. Neighbors, TurnCases: settling along neighbour lists and case by case, for code.
pub mod Computed
pub mod Sums
pub mod LowerBound
pub mod UpperBound
pub mod LeastWeights
pub mod Offers
pub mod FirstLeast
pub mod Turns
pub mod Stopping
pub mod Tree
pub mod Limits
pub mod TableAndPath
pub mod LeastCrossing
pub mod TwoGraphs
pub mod Neighbors
pub mod TurnCases
