-- Places: the last place before one that has the same number.
pub mod Places
