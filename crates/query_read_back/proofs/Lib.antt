-- Back: reading a path back.
pub mod Back
