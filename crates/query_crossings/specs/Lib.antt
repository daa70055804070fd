-- Found: what a crossing finds in a settled state.
pub mod Found
