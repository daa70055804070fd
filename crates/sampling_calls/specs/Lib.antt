-- Records: the defect and erasure columns that the calls are lent, and question 6 of them.
-- Errors: `generate_errors`. Sampling: `generate_random_errors`. Syndrome: `syndrome_of`.
-- The defect flip stands in the crate sampling_flips, the draws of an edge in sampling_edges, the list of set bytes in columns_marks,
-- `clear_errors` in sampling_clear.
pub mod Records
pub mod Errors
pub mod Sampling
pub mod Syndrome
