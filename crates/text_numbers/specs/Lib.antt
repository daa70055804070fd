-- Text: the lines of a listing. Steps: what the contracts of writers cite besides.
pub mod Text
pub mod Steps
