-- Steps: what the contracts of private functions cite besides.
pub mod Steps
