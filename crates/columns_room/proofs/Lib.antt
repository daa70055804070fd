-- Refusals: what question 6 says where it is met. Graph: the same of questions 6 and 7 of a code's graph. Sums: sums of list lengths.
pub mod Refusals
pub mod Graph
pub mod Sums
