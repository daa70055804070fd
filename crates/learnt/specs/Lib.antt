-- Learnt: what a caller of a function learns of a call, from the function's contract.
pub mod Learnt
