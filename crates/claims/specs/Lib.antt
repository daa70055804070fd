-- In reading order. BuildersCalled, QueriesCalled: calls of the builders and of the queries. Listed: a list of calls as the tally is fed it.
-- Called: the engine's calls, and lists of them. Demand3: what is claimed of them.
pub mod BuildersCalled
pub mod QueriesCalled
pub mod Listed
pub mod Called
pub mod Demand3
-- Met: the queries' questions 6, 7, 13 and 16. Queries: what their answers and columns say of walks and edge sets.
pub mod Met
pub mod Queries
-- Refusals: what a refusal's number tells.
pub mod Refusals
