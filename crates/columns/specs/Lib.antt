-- What every later crate's definitions are made of.
-- Limits: the numbers of document 01's Records. Lists: lists by counting, and columns afterwards. Questions: the tests at the door.
-- Places: the positions of vertices in three columns. Refusals: the number of the question that refuses a call.
pub mod Limits
pub mod Lists
pub mod Questions
pub mod Places
pub mod Refusals
