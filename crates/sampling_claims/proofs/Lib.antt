-- Accepted: what an accepted call's own promise says of its columns. Lists: lists ascend. Samplings: draws and the syndrome of a sampling. Flips: a flip, and errors on listed edges.
pub mod Accepted
pub mod Lists
pub mod Samplings
pub mod Flips
