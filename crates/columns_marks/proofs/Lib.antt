-- Laws that the proofs of this crate cite. Listing: lists of numbers whose byte is set. Marking: bytes set from a list.
pub mod Listing
pub mod Marking
