-- Scans: the Rust's loop over the peers, and the nearest virtual vertex. Boundaries: boundary weights and walks. Edges: where a row has no edge. Proved: the claim.
mod Scans
mod Boundaries
mod Edges
mod Proved
