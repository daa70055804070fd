-- Answers: what is said of an answer, whole. Graph: the listing's graph, its path and crossings. OnListing: calls on it. Builders: codes that are built or refused.
-- Initialized: the listing's graph handed on. Computed: the starred examples. Printed: the listing.
mod Answers
mod Graph
mod OnListing
mod Builders
mod Initialized
mod Computed
mod Printed
