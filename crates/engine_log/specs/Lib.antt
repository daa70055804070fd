-- Load: what loads and reset leave.
pub mod Load
