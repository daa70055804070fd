-- ByKind: the definitions by kind. Counted: the lists are as long as the formulas say. Accepted: what questions 2 to 5 say.
pub mod ByKind
pub mod Counted
pub mod Accepted
