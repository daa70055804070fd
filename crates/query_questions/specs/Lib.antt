-- Queries: the engine graph as `engine_walks` has it, and the questions of a query. Scratch: its scratch columns.
pub mod Queries
pub mod Scratch
