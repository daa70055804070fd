-- GetPath: what `get_path` answers and leaves.
pub mod GetPath
