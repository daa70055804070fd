-- Marks: bytes that are set, and the numbers that a list names.
pub mod Marks
