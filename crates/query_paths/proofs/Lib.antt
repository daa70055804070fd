-- PathAsked: the questions of a path query.
pub mod PathAsked
