-- Said: document 01's number and values of an answer. Counts: how many defects and erasures.
pub mod Said
pub mod Counts
