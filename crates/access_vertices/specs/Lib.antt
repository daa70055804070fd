-- Marked: what is_virtual and is_defect answer.
pub mod Marked
-- Positions: what get_positions asks and leaves.
pub mod Positions
-- Weights: twice the half weights.
pub mod Weights
