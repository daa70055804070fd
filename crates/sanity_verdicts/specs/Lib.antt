-- Sanity: the verdict of sanity_check.
pub mod Sanity
-- ListSteps: what the contracts of private functions cite besides.
pub mod ListSteps
