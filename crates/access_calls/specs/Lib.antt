-- Calls: the questions, and what each call leaves.
pub mod Calls
-- Fill: what fill_vertices leaves.
pub mod Fill
