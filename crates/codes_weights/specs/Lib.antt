-- Steps: what the functions of this crate promise. No contract of a customer's call cites it.
pub mod Steps
