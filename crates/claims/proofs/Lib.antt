-- Agreeing: what the engine's columns and the tally have in common, for a crossing. Runs: every list of calls. LeastKeys: a tree over any leaves. Returns: every call and
-- every list of calls returns. Refusing: the refusal of a number. SomeCode: every code is built. Built: what a built code hands to open. Proved: the demand.
pub mod Agreeing
pub mod Runs
mod LeastKeys
mod Refusing
pub mod Returns
mod SomeCode
pub mod Built
pub mod Proved
-- Questions: a query's number is 0 exactly where its questions are met. Tables, Paths, Crossings: what an answer and the columns say, read off what a caller learns.
pub mod Questions
pub mod Tables
pub mod Paths
pub mod Crossings
