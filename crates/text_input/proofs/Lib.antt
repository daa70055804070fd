-- Runs: runs of digits and the numbers they write. Lines: no well-formed line is longer than 57 bytes, and a line's fields by their places.
pub mod Runs
pub mod Lines
