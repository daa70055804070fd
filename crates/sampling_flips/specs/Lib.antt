-- Flip: the defect flip. Steps: what the functions ask of their callers.
pub mod Flip
pub mod Steps
