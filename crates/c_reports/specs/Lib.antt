pub mod Reports
-- Engine: the counts to go on with, and the end of a search. Errors: the count of translated numbers.
pub mod Engine
pub mod Errors
