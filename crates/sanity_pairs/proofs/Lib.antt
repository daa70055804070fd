-- SamePairs: the first edge that joins an earlier edge's pair.
pub mod SamePairs
