-- Kinds 1, 2 and 3, and the vertices and the edges within a layer of kind 4.
pub mod Planar
