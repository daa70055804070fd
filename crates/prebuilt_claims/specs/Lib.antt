-- In reading order. Prebuilt: what the Rust's `PrebuiltCompleteGraph` reports of a graph. Called: calls of the real functions. PrebuiltRows: that they give the same, and
-- what that is in terms of walks.
pub mod Prebuilt
pub mod Called
pub mod PrebuiltRows
