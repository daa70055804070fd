-- Claims: the claims, from what the calls promise.
pub mod Claims
