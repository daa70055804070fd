-- Rows: the row of a vertex as complete_graph.rs builds it, edges in the middle removed, and the call that fills it.
-- Nearest: the nearest virtual vertex of a vertex, and the call that reports it.
pub mod Rows
pub mod Nearest
-- Boundaries: each vertex's nearest virtual vertex, and the call that fills both columns. Steps: what private functions promise one another.
pub mod Boundaries
pub mod Steps
