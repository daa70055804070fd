-- Placing: laws of neighbour lists, and of placing them. Ends: what question 7 says of each edge.
pub mod Placing
pub mod Ends
