-- Graphs: built codes as graphs, and heights. Claims: what is proved of them.
pub mod Graphs
pub mod Claims
