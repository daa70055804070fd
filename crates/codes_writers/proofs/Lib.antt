-- Wrote: runs of stored edges. Placing: runs of stored vertices.
pub mod Wrote
pub mod Placing
