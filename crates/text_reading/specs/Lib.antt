-- Reading: what a read answers.
pub mod Reading
