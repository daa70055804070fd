-- Ends: the vertex after which a search stops. Tables: what a table query answers and leaves.
pub mod Ends
pub mod Tables
