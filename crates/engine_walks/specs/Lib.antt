-- The definitions to believe, in reading order. Lists: sums. Graph: walks, edge sets, least weights. Settling: the search, turn by turn.
-- Answers: table, path, crossing. Claims: what is proved of them. Examples: what they give on small graphs. A comment names the section of document 01, and the sentence, that a definition renders, or the customer's demand where that is the source.
pub mod Lists
pub mod Graph
pub mod Settling
pub mod Answers
pub mod Claims
pub mod Examples
