-- Choice: the vertex to take next, and the edges of its list. Settled: the loop of turns.
pub mod Choice
pub mod Settled
