-- Codes: the edges and vertices of each kind. Counts: how many there are. Accepts: questions 2 to 5.
pub mod Codes
pub mod Counts
pub mod Accepts
