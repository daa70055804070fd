-- Scans: the first finding.
pub mod Scans
-- Stamping: numbers twice in a list.
pub mod Stamping
