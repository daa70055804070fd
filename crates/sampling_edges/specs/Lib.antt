-- Draws: the draws of each edge, and what they say of it. Steps: what the contracts cite besides.
pub mod Draws
pub mod Steps
