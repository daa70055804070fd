-- Listing: the neighbour lists of a search. OneSource, LeftSources, Origins: the sources of a search. Asked: what an accepted query says of its columns. Ranges: an accepted engine graph is a graph
-- of `engine_walks`. Scratch: what a search leaves in scratch. Reading: what is read from there.
pub mod Listing
pub mod OneSource
pub mod LeftSources
pub mod Origins
pub mod Asked
pub mod Ranges
pub mod Scratch
pub mod Reading
-- Beginning: the state before the first turn.
pub mod Beginning
