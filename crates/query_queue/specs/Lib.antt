-- Tree: a tree of least keys.
pub mod Tree
