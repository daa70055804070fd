-- Ranks: signed weights by their ranks. Stored: values stored one by one. Amounts: the nearest vertex of a table. Places: what its place says.
pub mod Ranks
pub mod Stored
pub mod Amounts
pub mod Places
