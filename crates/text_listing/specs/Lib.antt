-- Listing: the text for the five numbers of a line. Claims: every code has a crossing. Steps: what private functions promise.
pub mod Listing
pub mod Claims
pub mod Steps
