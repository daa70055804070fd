-- Refusals: what an accepted call says of its columns, and steps from their parts.
pub mod Refusals
