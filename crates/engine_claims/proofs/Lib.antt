-- Places: a load and a reset of the log, place by place. Called: the claim.
mod Places
pub mod Called
