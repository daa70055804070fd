-- Ready: what the functions below the queries promise one another. The settling itself is defined in the crate `engine_walks`.
pub mod Ready
