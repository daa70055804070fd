-- Edges: edges and vertices as lists, and their columns. Steps: what the contracts of writers cite besides.
pub mod Edges
pub mod Steps
