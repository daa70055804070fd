-- Answers: what the calls that count answer.
pub mod Answers
