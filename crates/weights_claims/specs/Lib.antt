-- Called: calls of `weight_of_p` and `compute_weights`. Claims: what is claimed of them.
pub mod Called
pub mod Claims
