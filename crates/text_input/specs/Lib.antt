-- Line: the input line of `codelist`, well formed or not, its five numbers, and parts of a long input.
pub mod Line
