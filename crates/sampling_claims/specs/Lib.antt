-- In reading order. Called: calls of `seed_from_u64`, `next_f64`, `flip`, `generate_random_errors`, `generate_errors` and `syndrome_of`. Lists: the lists that they hand back.
-- Samplings: what is claimed of samplings. Flips: what is claimed of `flip`, `generate_errors` and `syndrome_of`.
pub mod Called
pub mod Lists
pub mod Samplings
pub mod Flips
